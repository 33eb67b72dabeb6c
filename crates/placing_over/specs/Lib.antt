-- What lies in the buffers when one anchor file is placed over a graph, and what is laid into them.
pub mod Lying
pub mod Laying
