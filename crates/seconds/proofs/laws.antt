pub mod SecondLaws
