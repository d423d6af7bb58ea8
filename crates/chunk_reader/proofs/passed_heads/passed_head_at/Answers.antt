use Rattle.std.proofs.Common.{◌≡◌, ℕ, ◌^◌, ◌<◌, Option, Some, None, IfSome, subst, arith}
use Rattle.std.specs.Prelude.{MatchOption}
use Rattle.chunk_header.specs.Views.{IsHeader, value_of_header}
use Rattle.chunk_reader.specs.Heads.{IsHead}
use Rattle.chunk_reader.specs.Places.{end_by}
use Rattle.chunk_reader.specs.Reasons.{unpassed_reasons}
use Rattle.chunk_reader.specs.declared.heads.Head.{Head}
use Rattle.chunk_reader.specs.declared.reasons.Why.TheVariants as why
use Rattle.chunk_reader.proofs.Rooms.{IsSized}
use Rattle.chunk_reader.proofs.WholeHeads.{HasRightHead, there, first_truncated, none_unpassed, refused_for}
use Rattle.chunk_reader.proofs.passed_heads.passed_head_at.Goals as goal
use Rattle.chunk_reader.proofs.passed_heads.passed_head_at.Goals.{In-Right}

-- the header that can be read, and what is told of the file
right : (g : _) (c : In-Right g) → IfSome (g.S.Store.bytes c.args.store.now) (HasRightHead c.in-Right.header c.args.at)
right g c =
    subst (λ (head : Head). IfSome (g.S.Store.bytes c.args.store.now) (λ file. IsHead file c.args.at head)) c.in-Right.is c.in_ok-head_at.ensures.head

sized : (g : _) (c : In-Right g) → IsSized (g.S.Store.bytes c.args.store.now) (Some c.args.size)
sized g c =
    subst (IsSized (g.S.Store.bytes c.args.store.now)) c.requires.place.sized.is_told (g.met.S.Store.sized c.args.store.now)

fits : (g : _) (c : In-Right g) → IsHeader c.in-Right.header
fits g c = c.in_ok-head_at.ensures.fits c.in-Right.header c.in-Right.end (cc)

end_is : (g : _) (c : In-Right g) → MatchOption c.in-Right.end (2 ^ 63 < end_by c.args.at (value_of_header c.in-Right.header))
    (λ e. e ≡ end_by c.args.at (value_of_header c.in-Right.header))
end_is g c = c.in_ok-head_at.ensures.end c.in-Right.header c.in-Right.end (cc)

end_some : (o : Option ℕ) (limit e n : ℕ) → o ≡ Some e → MatchOption o (limit < n) (λ x. x ≡ n) → e ≡ n
end_some o limit e n is h = let P : Option ℕ → Type 0 = λ x. MatchOption x (limit < n) (λ y. y ≡ n) in subst P is h

end_none : (o : Option ℕ) (limit n : ℕ) → o ≡ None → MatchOption o (limit < n) (λ x. x ≡ n) → limit < n
end_none o limit n is h = let P : Option ℕ → Type 0 = λ x. MatchOption x (limit < n) (λ y. y ≡ n) in subst P is h

pub returns-in_default-clause-refused : goal.returns-in_default-clause-refused
returns-in_default-clause-refused g c =
    λ fault same.
    let at = (goal.at.returns-in_default-clause-refused g c).In-Right in
    let past : 2 ^ 63 < end_by c.args.at (value_of_header c.in-Right.header) =
    end_none c.in-Right.end (2 ^ 63) (end_by c.args.at (value_of_header c.in-Right.header)) c.in_default.is (end_is g at) in
    refused_for unpassed_reasons _ c.args.at why.Truncated fault (cc)
    (first_truncated _ c.args.size c.args.at c.in-Right.header (sized g at) (fits g at) (right g at) (omega (arith, past, c.requires.place.sized.in_reach)))

pub returns-then-end-size-clause-refused : goal.returns-then-end-size-clause-refused
returns-then-end-size-clause-refused g c =
    λ fault same.
    let at = (goal.at.returns-then-end-size-clause-refused g c).In-Right in
    let is : c.in-Some.end ≡ end_by c.args.at (value_of_header c.in-Right.header) =
    end_some c.in-Right.end (2 ^ 63) c.in-Some.end (end_by c.args.at (value_of_header c.in-Right.header)) c.in-Some.is (end_is g at) in
    refused_for unpassed_reasons _ c.args.at why.Truncated fault (cc)
    (first_truncated _ c.args.size c.args.at c.in-Right.header (sized g at) (fits g at) (right g at) (omega (arith, is, c.if-end-size.true)))

pub returns-clause-found : goal.returns-clause-found
returns-clause-found g c =
    let at = (goal.at.returns-clause-found g c).In-Right in
    let is : c.in-Some.end ≡ end_by c.args.at (value_of_header c.in-Right.header) =
    end_some c.in-Right.end (2 ^ 63) c.in-Some.end (end_by c.args.at (value_of_header c.in-Right.header)) c.in-Some.is (end_is g at) in
    record {
      fits = fits g at;
      ends = is;
      header = there _ c.args.at c.in-Right.header (right g at);
      none = none_unpassed _ c.args.size c.args.at c.in-Right.header (sized g at) (fits g at) (right g at) (omega (arith, is, c.if-end-size.false));
    }
