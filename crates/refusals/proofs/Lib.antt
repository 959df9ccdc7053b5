-- The laws that belong to no one function
pub mod Laws
pub mod RoomLaws
pub mod OpenLaws
pub mod InsideLaws
pub mod OrderLaws
