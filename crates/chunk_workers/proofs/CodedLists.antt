-- Coded chunks, and the groups whose chunks they are.
use Rattle.std.proofs.Common.{◌≡◌, ◌∙◌, ℕ, zero, suc, Bool, false, Some, List, [], ◌∷◌, ◌++◌, length, take, drop, refl, sym, ap, subst, arith}
use Rattle.std.specs.Prelude.{if◌then◌else◌, slice_get}
use Rattle.std.specs.List.{concat}
use Rattle.std.proofs.lemmas.List.{append-nil}
use Rattle.std.proofs.lemmas.Option.{none-some, same_Some}
use Rattle.chunk_header.specs.Chunks.{ChunkValue, header_bytes}
use Rattle.chunk_header.specs.SimpleChunks.{simple_data}
use Rattle.simple_chunk.specs.Sizes.{data_front}
use Rattle.chunk_workers.specs.Coded.{AreCoded, CodedValue, IsCodedAfter, IsCodedAt, StandsFor, coded_of}
use Rattle.chunk_workers.specs.declared.coded_chunks.CodedHead.{CodedHead}

-- a chunk for each head
pub length-coded_of : (heads : List CodedHead) (fronts : List (List ℕ)) → length heads ≡ length fronts → length (coded_of heads fronts) ≡ length heads
length-coded_of [] fronts same = refl
length-coded_of (head ∷ heads) [] same = absurd (omega (arith, same))
length-coded_of (head ∷ heads) (front ∷ fronts) same = ap suc (length-coded_of heads fronts (omega (arith, same)))

-- one more of both is one more chunk
pub coded_of-push : (heads : List CodedHead) (fronts : List (List ℕ)) (head : CodedHead) (front : List ℕ) → length heads ≡ length fronts
    → coded_of (heads ++ head ∷ []) (fronts ++ front ∷ []) ≡ coded_of heads fronts ++ record { head = head; front = front } ∷ []
coded_of-push [] [] head front same = refl
coded_of-push [] (f ∷ fronts) head front same = absurd (omega (arith, same))
coded_of-push (h ∷ heads) [] head front same = absurd (omega (arith, same))
coded_of-push (h ∷ heads) (f ∷ fronts) head front same =
    ap (λ (cs : List CodedValue). record { head = h; front = f } ∷ cs) (coded_of-push heads fronts head front (omega (arith, same)))

-- a chunk is its head and its front
pub coded_of-at : (heads : List CodedHead) (fronts : List (List ℕ)) (i : ℕ) (head : CodedHead) (front : List ℕ) → slice_get heads i ≡ Some head → slice_get fronts i ≡ Some front
    → slice_get (coded_of heads fronts) i ≡ Some (record { head = head; front = front })
coded_of-at [] fronts i head front first second = absurd (none-some head first)
coded_of-at (h ∷ heads) [] i head front first second = absurd (none-some front second)
coded_of-at (h ∷ heads) (f ∷ fronts) zero head front first second =
    ap (λ (x : CodedHead). let c : CodedValue = record { head = x; front = f } in Some c) (same_Some h head first)
    ∙ ap (λ (x : List ℕ). let c : CodedValue = record { head = head; front = x } in Some c) (same_Some f front second)
coded_of-at (h ∷ heads) (f ∷ fronts) (suc i) head front first second = coded_of-at heads fronts i head front first second

-- there are as many as groups
pub AreCoded-length : (chunk_of : List (List ℕ) → ChunkValue) (groups : List (List (List ℕ))) (chunks : List CodedValue) → AreCoded chunk_of groups chunks → length chunks ≡ length groups
AreCoded-length chunk_of [] [] are = refl
AreCoded-length chunk_of [] (c ∷ chunks) are = absurd are
AreCoded-length chunk_of (group ∷ groups) [] are = absurd are
AreCoded-length chunk_of (group ∷ groups) (c ∷ chunks) are = ap suc (AreCoded-length chunk_of groups chunks are.1)

-- the chunks of groups, and of others behind them
pub AreCoded-append : (chunk_of : List (List ℕ) → ChunkValue) (front back : List (List (List ℕ))) (chunks more : List CodedValue)
    → AreCoded chunk_of front chunks → AreCoded chunk_of back more → AreCoded chunk_of (front ++ back) (chunks ++ more)
AreCoded-append chunk_of [] back [] more are behind = behind
AreCoded-append chunk_of [] back (c ∷ chunks) more are behind = absurd are
AreCoded-append chunk_of (group ∷ front) back [] more are behind = absurd are
AreCoded-append chunk_of (group ∷ front) back (c ∷ chunks) more are behind = (are.0, AreCoded-append chunk_of front back chunks more are.1 behind)

-- one more
pub AreCoded-push : (chunk_of : List (List ℕ) → ChunkValue) (groups : List (List (List ℕ))) (group : List (List ℕ)) (old new : List CodedValue)
    → AreCoded chunk_of groups old → IsCodedAfter chunk_of group old new → AreCoded chunk_of (groups ++ group ∷ []) new
AreCoded-push chunk_of groups group old new are after =
    subst (AreCoded chunk_of (groups ++ group ∷ [])) (sym after.appended)
    (AreCoded-append chunk_of groups (group ∷ []) old (after.coded ∷ []) are (after.stands, tt))

-- those of the first groups come first, and then those of the others
pub AreCoded-front : (chunk_of : List (List ℕ) → ChunkValue) (front back : List (List (List ℕ))) (chunks : List CodedValue)
    → AreCoded chunk_of (front ++ back) chunks → AreCoded chunk_of front (take (length front) chunks)
AreCoded-front chunk_of [] back chunks are = tt
AreCoded-front chunk_of (group ∷ front) back [] are = absurd are
AreCoded-front chunk_of (group ∷ front) back (c ∷ chunks) are = (are.0, AreCoded-front chunk_of front back chunks are.1)

pub AreCoded-back : (chunk_of : List (List ℕ) → ChunkValue) (front back : List (List (List ℕ))) (chunks : List CodedValue)
    → AreCoded chunk_of (front ++ back) chunks → AreCoded chunk_of back (drop (length front) chunks)
AreCoded-back chunk_of [] back chunks are = are
AreCoded-back chunk_of (group ∷ front) back [] are = absurd are
AreCoded-back chunk_of (group ∷ front) back (c ∷ chunks) are = AreCoded-back chunk_of front back chunks are.1

-- the chunk of one of the groups
pub AreCoded-at : (chunk_of : List (List ℕ) → ChunkValue) (groups : List (List (List ℕ))) (chunks : List CodedValue) (i : ℕ) (group : List (List ℕ))
    → AreCoded chunk_of groups chunks → slice_get groups i ≡ Some group → IsCodedAt chunk_of group chunks i
AreCoded-at chunk_of [] chunks i group are is = absurd (none-some group is)
AreCoded-at chunk_of (g ∷ groups) [] i group are is = absurd are
AreCoded-at chunk_of (g ∷ groups) (c ∷ chunks) zero group are is =
    record { coded = c; at = refl; stands = subst (λ (x : List (List ℕ)). StandsFor (chunk_of x) x c) (same_Some g group is) are.0 }
AreCoded-at chunk_of (g ∷ groups) (c ∷ chunks) (suc i) group are is =
    let rest = AreCoded-at chunk_of groups chunks i group are.1 is in
    record { coded = rest.coded; at = rest.at; stands = rest.stands }

-- where a head has the bytes of a chunk's header, and its front with the values is that chunk's data, it was appended
pub coded_after : (chunk_of : List (List ℕ) → ChunkValue) (group : List (List ℕ)) (heads more_heads : List CodedHead) (fronts more_fronts : List (List ℕ)) (head : CodedHead) (front : List ℕ)
    → length heads ≡ length fronts → more_heads ≡ heads ++ head ∷ [] → more_fronts ≡ fronts ++ front ∷ []
    → head.header ≡ header_bytes (chunk_of group) → head.num_records ≡ (chunk_of group).num_records
    → front ++ (if head.takes_values then concat group else []) ≡ (chunk_of group).«data»
    → IsCodedAfter chunk_of group (coded_of heads fronts) (coded_of more_heads more_fronts)
coded_after chunk_of group heads more_heads fronts more_fronts head front same first second header records joined = record {
  coded = record { head = head; front = front };
  appended = rw (first, second) (coded_of-push heads fronts head front same);
  stands = record { header = header; records = records; joined = joined };
}

-- the data of a simple chunk, of which the values may be left out
pub simple_joined : (group : List (List ℕ)) (front made before values : List ℕ) (takes left : Bool) → front ≡ made → takes ≡ left
    → made ++ (if left then values else []) ≡ before ++ values → before ≡ data_front group → values ≡ concat group
    → front ++ (if takes then concat group else []) ≡ simple_data group
simple_joined group front made before values takes left same told joined begins are =
    ap (λ (bytes : List ℕ). bytes ++ (if takes then concat group else [])) same
    ∙ ap (λ (leaves : Bool). made ++ (if leaves then concat group else [])) told
    ∙ ap (λ (bytes : List ℕ). made ++ (if left then bytes else [])) (sym are)
    ∙ joined
    ∙ ap (λ (bytes : List ℕ). bytes ++ values) begins
    ∙ ap (λ (bytes : List ℕ). data_front group ++ bytes) are

-- and of a chunk with all of its data
pub whole_joined : (front data_bytes values : List ℕ) (takes : Bool) → front ≡ data_bytes → takes ≡ false → front ++ (if takes then values else []) ≡ data_bytes
whole_joined front data_bytes values takes same told =
    ap (λ (leaves : Bool). front ++ (if leaves then values else [])) told ∙ append-nil front ∙ same
