-- Rules of a saved track's shape that are tested item by item. Below: `code`, mirrors of code.
pub mod code
