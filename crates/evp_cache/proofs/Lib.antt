mod Entries
mod Indexed
mod Meetings
mod Notes
mod Rows
