-- That a program which reads as it goes writes what must be written, whatever answers as the plain history does; examples by computation.
pub mod Steps
pub mod Typed
pub mod StepsAlike
pub mod Vectors
