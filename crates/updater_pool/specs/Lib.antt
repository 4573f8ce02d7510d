pub mod ZipLaws
