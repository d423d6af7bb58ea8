use Rattle.seek_command.proofs.searching.search.Goals as goal

pub returns-in-At-clause-refused : goal.returns-in-At-clause-refused
returns-in-At-clause-refused g c = λ fault is. rw c.in-At.is (c.seek.ensures.refused fault is)

pub returns-in-Key-clause-refused : goal.returns-in-Key-clause-refused
returns-in-Key-clause-refused g c = λ fault is. rw c.in-Key.is (c.find_by_key.ensures.refused fault is)
