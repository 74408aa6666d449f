pub mod QuadrantLaws
