-- What request 2026-01 promises of images. Assumes nothing.
pub mod Images
