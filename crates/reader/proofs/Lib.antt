-- Words of a page's nodes.
pub mod Nodes
