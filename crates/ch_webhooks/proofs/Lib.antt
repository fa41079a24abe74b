pub mod WorkedBodies
