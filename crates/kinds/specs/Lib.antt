-- The table by kind. Meaning: `Kind`, the kinds, their payloads and their subterms.
pub mod Kind
