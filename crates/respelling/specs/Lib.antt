-- Lines of tables and scripts in the words of document 02's W1: `Worded`; and what is owed of the listing of an input respelled:
-- `Listed`.
pub mod Worded
pub mod Listed
