pub mod Older
pub mod Laws
pub mod Mended
