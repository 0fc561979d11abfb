-- What is said of orders alone.
mod NewOrders
mod Tables
