-- What symbols one by one, or a feed, come to.
pub mod Play
