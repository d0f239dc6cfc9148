mod Reading
mod Methods
