-- What a commit or an abort marks, word by word, and whose number an open entry has.
pub mod Tails
pub mod Number
