-- Lines of a listing. Meaning: `ListingFrame`, the frames of a listing.
pub mod ListingFrame
