-- Laws of bits (specs/Bits.antt).
pub mod Bits
pub mod BitsOf
pub mod Bitwise
