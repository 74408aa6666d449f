pub mod DisorderLaws
