pub mod BeforeAll
