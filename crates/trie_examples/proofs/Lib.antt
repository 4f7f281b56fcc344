mod PageLemmas
mod TextLemmas
mod WordLemmas
