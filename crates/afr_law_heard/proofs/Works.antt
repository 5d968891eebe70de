pub mod WorkTold
