-- What the lists of a trie say of its networks.
pub mod RouteLemmas
-- The routes in order are those that are stored.
pub mod ListedLemmas
-- Routes that stand in order, with a trie of them or with none.
pub mod HeldLemmas
-- Hops as numbers, one after another.
pub mod NumberLemmas
-- Lists of routes, with their hops as texts and as numbers.
pub mod AggregateLemmas
-- Answers of parts.
pub mod AnswerLemmas
-- Images that are opened in place of the routes of a family.
pub mod OpenLemmas
-- What a line asks for.
pub mod CommandLemmas
-- A line asks for one thing at most.
pub mod OneRequest
-- What is written of a network is read as it.
pub mod WrittenLemmas
-- The lines of a file, one after another.
pub mod LoadLemmas
-- The places of hops in an image, and what is read there.
pub mod RouteImageLemmas
