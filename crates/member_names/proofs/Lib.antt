-- places in lists in which nothing stands twice
pub mod Lists
-- methods by name
pub mod Named
