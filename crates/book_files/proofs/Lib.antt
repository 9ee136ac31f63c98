pub mod BooksRead
pub mod BooksSaved
