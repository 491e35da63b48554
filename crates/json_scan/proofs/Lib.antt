pub mod Lexemes
pub mod Values
pub mod Numbers
pub mod Arrays
pub mod Objects
pub mod Strings
pub mod Trees
