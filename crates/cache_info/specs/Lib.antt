pub mod HeadNotes
