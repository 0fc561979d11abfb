-- What the code of the offers says beside the rules: the answer about an offer.
pub mod Offered
