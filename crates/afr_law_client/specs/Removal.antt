pub mod RemovalTelling
pub mod RemovalLaws
