mod Keeping
mod BlockFlushed
