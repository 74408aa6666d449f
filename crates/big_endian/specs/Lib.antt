-- what to believe: the bytes of a number
pub mod Numbers
