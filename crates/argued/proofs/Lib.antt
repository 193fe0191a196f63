pub mod Ends
pub mod Asked
pub mod Closing
pub mod Record
pub mod Made
