mod Committing
mod Ends
mod Eventful
mod LookClauses
mod OneCommit
mod OwnTables
mod RunClauses
