use Rattle.encoded_keys.proofs.search.index_of.Goals as goal

pub returns-in-Found : goal.returns-in-Found
returns-in-Found g c = c.look.ensures.found c.in-Found.at c.in-Found.is
