pub mod OneToken
