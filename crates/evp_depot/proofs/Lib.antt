mod FileLemmas
mod FrontLemmas
mod Examples
