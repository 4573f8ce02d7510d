pub mod FolderNames
