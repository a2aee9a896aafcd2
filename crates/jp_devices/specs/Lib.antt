-- What contracts say of devices that are watched, and of writers after buffers.
pub mod Devices
pub mod Buffered
