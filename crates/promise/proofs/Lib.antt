pub mod Laws
pub mod CallLaws
pub mod ReadLaws
pub mod BackLaws
pub mod RoomLaws
