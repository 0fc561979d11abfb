-- Trees that differ in the order of neighbours (Order).
pub mod Order
