-- What a route and its fields say of a request.
use Rattle.std.specs.Prelude.{ℕ, ◌||◌, Bool, true, false, if◌then◌else◌, nat_le, List, [], ◌∷◌, length, codes, Option, Some, None}
use Rattle.terms.specs.Forms.{is_card_key, is_outside_key}
use Rattle.web.specs.Fields.{NamedValue, values_of}
use Rattle.web.specs.declared.routes.Route.{Route}
use Rattle.web.specs.declared.routes.Route.TheVariants.{Page, PlaceHold, CancelHold, Renew, Desk}

-- A page uses GET; everything else uses POST.
abbrev pub is_post : Route → Bool
is_post (Page patron) = false
is_post (PlaceHold patron) = true
is_post (CancelHold patron hold) = true
is_post (Renew patron loan) = true
is_post Desk = true

-- The method of a route.
abbrev pub method_of : Route → List ℕ
method_of route = if is_post route then codes "POST" else codes "GET"

-- The patron of a route; none for the desk's.
abbrev pub patron_of : Route → Option ℕ
patron_of (Page patron) = Some patron
patron_of (PlaceHold patron) = Some patron
patron_of (CancelHold patron hold) = Some patron
patron_of (Renew patron loan) = Some patron
patron_of Desk = None

-- The field that shows the caller's key.
abbrev pub key_field : Route → List ℕ
key_field (Page patron) = codes "Card-Key"
key_field (PlaceHold patron) = codes "Card-Key"
key_field (CancelHold patron hold) = codes "Card-Key"
key_field (Renew patron loan) = codes "Card-Key"
key_field Desk = codes "Desk-Key"

-- The only value, if it has the form.
abbrev pub shown_in : (List ℕ → Bool) → List (List ℕ) → Option (List ℕ)
shown_in has_form [] = None
shown_in has_form (value ∷ []) = if has_form value then Some value else None
shown_in has_form (first ∷ second ∷ more) = None

-- The key that the caller shows: a card key or the desk's key.
abbrev pub shown_key : Route → List NamedValue → Option (List ℕ)
shown_key route fields = shown_in is_card_key (values_of (key_field route) fields)

-- The key of the request.
abbrev pub request_key : List NamedValue → Option (List ℕ)
request_key fields = shown_in is_outside_key (values_of (codes "Request-Key") fields)

-- A field with this name occurs more than once.
abbrev pub stands_twice : List ℕ → List NamedValue → Bool
stands_twice name fields = nat_le 2 (length (values_of name fields))

-- One of the three keys does.
abbrev pub repeats_key : List NamedValue → Bool
repeats_key fields = stands_twice (codes "Card-Key") fields || (stands_twice (codes "Desk-Key") fields || stands_twice (codes "Request-Key") fields)
