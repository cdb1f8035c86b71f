-- Scans and pages: opening and closing (Scans), a scan's pages (ScanPages), pages that are free (Free), merge (Merge, Merged) and release (Release).
pub mod Scans
pub mod ScanPages
pub mod Free
pub mod Merge
pub mod Merged
pub mod Release
