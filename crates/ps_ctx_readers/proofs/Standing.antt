-- What a header tells of the object at an address.
use Rattle.std.proofs.Common.{◌≡◌, ℕ, length, Option, Some, None, ap}
use Rattle.std.specs.Prelude.{IfSome, IsSome}
use Rattle.ps_word.specs.declared.headers.Header.{Header}
use Rattle.ps_mem.specs.Heap.{Heap, Standing, birth_of, birth_at, object_at}

read : (found : Option Standing) (header : Header) → IsSome found
    → IfSome found (λ o. header ≡ record
    { kind = o.kind; fields = length o.fields; birth = o.birth }) → header.birth ≡ birth_of found
read (Some o) header there is = ap (λ (x : Header). x.birth) is
read None header there is = cc

pub birth_read : (h : Heap) (address : ℕ) (header : Header) → IsSome (object_at h address)
    → IfSome (object_at h address) (λ o. header ≡ record
    { kind = o.kind; fields = length o.fields; birth = o.birth })
    → header.birth ≡ birth_at h address
unfolding birth_at
birth_read h address header there is = read (object_at h address) header there is
