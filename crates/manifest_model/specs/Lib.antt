-- what items are
pub mod Items
-- lines
pub mod ManifestLines
-- the whole
pub mod Manifest
