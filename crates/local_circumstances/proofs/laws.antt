pub mod Demand3Laws
