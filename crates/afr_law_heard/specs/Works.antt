pub mod WorkLaws
pub mod WorkTelling
