-- Lists: what is found, counted and filtered in them, and what each act does to their items.
pub mod EachItem
pub mod Gathering
pub mod PlaceLists
pub mod Counting
pub mod FirstPassing
pub mod EntryOrder
pub mod Lengths
pub mod Pages
