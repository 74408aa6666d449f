pub mod TablesLaws
