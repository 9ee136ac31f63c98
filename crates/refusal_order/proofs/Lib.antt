pub mod LeastFound
