-- Numbers: the number of a name NSk. Records: where the numbers of such names are entered.
pub mod Numbers
pub mod Records
