-- Laws that the turns rest on, and the theorem over any input.
pub mod Answers
pub mod Store
pub mod Gatebook
