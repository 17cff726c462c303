pub mod SumTables
