-- What reading and packing need beside document 01's definitions: a word, and the fields that are cut from it and put into it.
pub mod Word
