-- Where two metadata first differ, in the order in which it is read: the first difference of parts, the parts.
pub mod First
pub mod Parts
