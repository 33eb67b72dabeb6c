-- The laws that the work of any engine on one anchor file cites: Settings of what lies in the buffers, Results of what is laid there.
pub mod Settings
pub mod Results
